pub mod Numbers
pub mod Stands
