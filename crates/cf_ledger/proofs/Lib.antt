pub mod PlaceRows
pub mod Stands
pub mod Sums
pub mod Walks
pub mod YearChanges
