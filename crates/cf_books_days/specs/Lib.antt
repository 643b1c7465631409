pub mod Through
pub mod Ledgers
pub mod Adoptions
pub mod Gathered
pub mod Lines
pub mod Statement
pub mod Balances
pub mod Posts
