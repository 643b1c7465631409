pub mod Charges
pub mod DebtNow
pub mod Register
pub mod RegisterView
pub mod Rows
pub mod Steps
