pub mod Values
pub mod CallText
pub mod Fits
