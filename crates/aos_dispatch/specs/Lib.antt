pub mod Nearest
pub mod Routines
pub mod Dispatch
pub mod Tables
pub mod Awaits
pub mod Sizes
