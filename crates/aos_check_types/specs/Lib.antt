pub mod Told
pub mod Places
pub mod Aliases
pub mod Ahead
pub mod Methods
pub mod Limits
