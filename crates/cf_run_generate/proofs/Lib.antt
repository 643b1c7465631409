pub mod ChartRead
pub mod Forms
pub mod Stepping
