pub mod Adds
pub mod Back
pub mod Forwards
pub mod Pending
pub mod Scope
pub mod Sizes
