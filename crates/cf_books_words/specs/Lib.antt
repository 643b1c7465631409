pub mod Words
pub mod Options
pub mod Found
pub mod Requests
pub mod Ranges
pub mod CommandLine
pub mod Parsed
