pub mod Extents
pub mod Limits
pub mod Pairs
pub mod Years
