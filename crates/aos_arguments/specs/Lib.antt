pub mod Filled
pub mod Arguments
pub mod Functions
pub mod Seen
