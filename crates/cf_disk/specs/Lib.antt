pub mod Images
pub mod Moments
pub mod Memory
pub mod MemoryLaws
pub mod MemoryView
