pub mod Fields
pub mod Routes
pub mod Heads
pub mod Answers
pub mod Rows
