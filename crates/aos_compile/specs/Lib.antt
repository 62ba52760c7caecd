pub mod Modules
pub mod Files
pub mod Elaborates
pub mod Seen
