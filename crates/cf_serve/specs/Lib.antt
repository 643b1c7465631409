pub mod DesksRun
pub mod HallServes
