pub mod ActsExact
pub mod EntriesExact
pub mod ItemsExact
pub mod Sizes
