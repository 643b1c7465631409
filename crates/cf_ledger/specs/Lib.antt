pub mod BookView
pub mod Books
pub mod Places
pub mod Posts
pub mod Years
