pub mod Apart
pub mod Endings
