pub mod Devices
pub mod Notices
pub mod Printing
pub mod Refused
pub mod Unwritten
