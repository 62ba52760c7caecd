pub mod Hidden
pub mod Items
pub mod Naming
