pub mod Adds
pub mod Redirect
pub mod Places
pub mod Ways
pub mod Made
