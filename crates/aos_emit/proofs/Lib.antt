pub mod Ends
pub mod Whole
pub mod Matching
pub mod Awaited
