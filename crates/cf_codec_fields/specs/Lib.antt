pub mod Fields
pub mod Formats
pub mod Kinds
pub mod Puts
pub mod Readings
