pub mod Lists
pub mod Rule
pub mod Seats
pub mod States
pub mod Steps
pub mod Touching
