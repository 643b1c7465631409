pub mod Books
pub mod Posts
