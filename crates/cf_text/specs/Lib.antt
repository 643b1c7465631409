pub mod Bytes
pub mod Records
pub mod Statement
pub mod Writers
