pub mod Grants
pub mod Faults
pub mod Reading
