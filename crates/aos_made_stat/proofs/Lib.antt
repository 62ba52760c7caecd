mod Made
pub mod Onto
