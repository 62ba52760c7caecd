pub mod Holders
pub mod Filled
