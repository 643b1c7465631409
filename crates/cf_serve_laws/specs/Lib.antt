pub mod PassTalks
pub mod Joins
pub mod Clerks
pub mod Desks
pub mod ServeRuns
pub mod ServeEnds
