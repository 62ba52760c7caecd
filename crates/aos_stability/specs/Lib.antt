pub mod Agree
pub mod Example
pub mod Lasts
pub mod Locations
