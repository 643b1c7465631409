pub mod Standing
pub mod TakenState
pub mod Recordings
pub mod Passes
pub mod OpeningNames
pub mod Fronts
pub mod HallState
pub mod Endings
