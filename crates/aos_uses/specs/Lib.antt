pub mod Uses
pub mod Guarded
pub mod Prefixes
