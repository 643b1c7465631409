pub mod Following
pub mod Documents
