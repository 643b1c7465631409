pub mod Seating
pub mod Ending
pub mod Sending
