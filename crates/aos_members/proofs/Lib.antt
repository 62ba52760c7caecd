pub mod Bases
pub mod Chains
pub mod Opened
pub mod Slots
pub mod Numbered
