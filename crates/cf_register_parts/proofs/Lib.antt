pub mod Acts
pub mod Cells
pub mod Lists
pub mod PairFacts
pub mod YearSums
