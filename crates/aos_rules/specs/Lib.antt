pub mod Lengths
pub mod Relations
