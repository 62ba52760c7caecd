pub mod Text
pub mod Parts
pub mod Symbols
pub mod Outcomes
pub mod Unambiguous
