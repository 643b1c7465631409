pub mod Records
pub mod Frames
pub mod Layout
pub mod Journal
pub mod Answers
