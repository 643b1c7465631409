pub mod Acts
pub mod Calls
pub mod Items
pub mod Reads
pub mod Words
