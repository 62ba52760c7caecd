pub mod Zoom
pub mod Grow
pub mod Roots
pub mod Places
pub mod Makes
pub mod Wholes
