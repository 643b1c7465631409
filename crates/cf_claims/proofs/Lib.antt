pub mod Claiming
pub mod Kept
pub mod LegalHistory
pub mod Numbers
pub mod Years
pub mod RowsSay
