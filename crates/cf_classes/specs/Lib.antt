pub mod Classes
pub mod Components
pub mod Major
pub mod Rows
pub mod Sizes
pub mod Statements
pub mod Titles
pub mod Worked
