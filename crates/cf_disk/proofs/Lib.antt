pub mod Record
pub mod Untold
pub mod Writes
