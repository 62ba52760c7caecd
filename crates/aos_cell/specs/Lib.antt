pub mod Total
pub mod Bound
pub mod Rule
pub mod Steps
pub mod Passes
pub mod Hold
