pub mod Order
pub mod Counts
pub mod Parts
pub mod Gathered
