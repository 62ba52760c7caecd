pub mod Behind
pub mod Listed
pub mod Largest
