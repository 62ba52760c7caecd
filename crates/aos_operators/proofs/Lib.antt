pub mod Stored
pub mod Numbers
pub mod Good
pub mod Sound
