pub mod Described
pub mod Known
