pub mod Faults
pub mod Fields
pub mod Kinds
pub mod Lists
pub mod Objects
pub mod Parts
