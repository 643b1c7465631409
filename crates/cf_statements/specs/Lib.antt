pub mod Activities
pub mod Balance
pub mod Budget
pub mod Operating
pub mod Position
pub mod Sums
pub mod Tables
pub mod Titles
