pub mod Numbered
pub mod Memory
pub mod Silent
pub mod Machine
pub mod Lines
