pub mod Stores
pub mod Settling
pub mod Tallies
