pub mod Variables
pub mod Types
pub mod Headings
pub mod Pass
