pub mod Ships
pub mod Copies
pub mod Follows
