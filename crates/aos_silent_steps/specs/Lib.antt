pub mod Known
pub mod Acts
pub mod Taken
pub mod Steps
pub mod Silent
pub mod Room
pub mod Conditions
