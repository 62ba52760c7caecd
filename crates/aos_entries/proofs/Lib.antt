pub mod Rows
pub mod Entered
