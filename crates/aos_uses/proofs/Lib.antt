pub mod Said
pub mod UsedArguments
pub mod Largest
