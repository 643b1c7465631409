pub mod Behind
pub mod CallsAgain
pub mod Steps
pub mod Ends
pub mod Today
pub mod Months
