pub mod Added
pub mod Estimated
pub mod LookedUp
pub mod Numbers
pub mod ReconSound
pub mod Texts
