pub mod Common
pub mod DayNumbers
pub mod Floors
