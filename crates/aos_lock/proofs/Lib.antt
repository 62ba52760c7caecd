pub mod Rows
pub mod Chosen
pub mod Walks
pub mod Parts
pub mod Changes
pub mod Owns
pub mod Idle
