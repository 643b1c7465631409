pub mod Values
pub mod WordTables
