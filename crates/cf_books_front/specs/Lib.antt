pub mod Whole
pub mod Front
