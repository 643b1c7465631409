pub mod Articulates
pub mod Comparison
pub mod ItemAccounts
pub mod OpenBills
pub mod OpenVouchers
pub mod OwnAccounts
pub mod TrialBalances
pub mod WorkedLevels
