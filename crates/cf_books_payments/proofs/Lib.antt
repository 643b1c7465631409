pub mod Noted
pub mod Rising
pub mod Added
pub mod Paying
