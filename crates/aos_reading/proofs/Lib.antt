pub mod Readings
pub mod Orders
pub mod Named
