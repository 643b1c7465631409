pub mod Memory
pub mod MemoryDoors
