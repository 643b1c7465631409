pub mod Gathered
pub mod Rolled
pub mod Orderly
pub mod Sums
pub mod Laws
pub mod Totals
