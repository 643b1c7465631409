pub mod Names
mod Added
