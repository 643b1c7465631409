pub mod Claims
pub mod Kept
pub mod Marks
pub mod Texts
pub mod Standing
pub mod Worked
