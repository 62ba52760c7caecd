pub mod Methods
pub mod Seen
