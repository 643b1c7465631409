pub mod Beginnings
pub mod Numbers
pub mod Places
pub mod Calls
pub mod Views
pub mod Moves
