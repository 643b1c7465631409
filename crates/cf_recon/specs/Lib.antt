pub mod ChangeItems
pub mod Registers
pub mod Rows
