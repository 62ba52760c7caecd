pub mod Searches
pub mod Reading
pub mod Needing
pub mod Steps
pub mod Answering
pub mod Keeps
pub mod Knots
