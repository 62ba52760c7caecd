pub mod Heirs
pub mod Waits
