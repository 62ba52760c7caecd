pub mod Each
pub mod Passes
pub mod Held
pub mod Written
