pub mod Sizes
pub mod Seen
