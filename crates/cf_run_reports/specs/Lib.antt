pub mod Claims
pub mod Pools
pub mod Reports
