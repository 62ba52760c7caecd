pub mod KeptArgument
pub mod Kept
pub mod KeptCallee
pub mod Looked
