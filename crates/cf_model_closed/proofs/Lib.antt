mod Days
mod Over
mod VoucherYears
mod OpenHolds
mod Dues
mod Recognised
mod Posts
mod Moves
mod Numbers
pub mod ClosedYears
