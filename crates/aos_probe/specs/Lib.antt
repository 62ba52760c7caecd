pub mod Meaning
pub mod Kinds
pub mod Told
