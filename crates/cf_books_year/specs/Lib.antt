pub mod Paid
pub mod YearBalances
