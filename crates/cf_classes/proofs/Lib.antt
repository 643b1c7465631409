pub mod Legal
pub mod Next
pub mod Together
pub mod Whole
pub mod Within
