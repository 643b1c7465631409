pub mod Rows
pub mod Council
pub mod Items
pub mod Rolls
pub mod Entries
pub mod History
