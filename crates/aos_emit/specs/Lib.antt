pub mod Bodies
pub mod Conditions
