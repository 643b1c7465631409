pub mod Generated
pub mod Acts
pub mod Turns
