pub mod Claiming
pub mod Pooling
pub mod Reporting
