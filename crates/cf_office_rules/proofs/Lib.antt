pub mod Dues
pub mod LastRules
pub mod Least
pub mod Short
pub mod Verdicts
