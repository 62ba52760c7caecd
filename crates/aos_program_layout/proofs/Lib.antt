pub mod Found
pub mod Fields
pub mod Taken
