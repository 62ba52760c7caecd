pub mod Known
pub mod Seen
pub mod Kinds
pub mod Places
