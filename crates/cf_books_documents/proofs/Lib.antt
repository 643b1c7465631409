pub mod Dating
pub mod Agreed
pub mod Each
pub mod Entering
pub mod Folding
pub mod Indexing
pub mod Within
