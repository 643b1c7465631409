pub mod Days
pub mod Amounts
pub mod Sums
pub mod Rows
pub mod Records
pub mod Month
