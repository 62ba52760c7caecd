pub mod Turns
pub mod Items
