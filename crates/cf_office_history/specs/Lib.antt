pub mod Estimates
pub mod HistoryState
pub mod Keys
pub mod RestState
pub mod RestView
