pub mod Calls
pub mod Statements
pub mod Taken
