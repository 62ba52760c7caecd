pub mod Pairs
pub mod Strings
