pub mod Keys
pub mod KindsFound
pub mod SameCalls
pub mod Seen
