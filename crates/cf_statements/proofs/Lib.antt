pub mod Next
pub mod Together
