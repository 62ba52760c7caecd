pub mod Met
pub mod Formals
pub mod Arrays
pub mod Records
pub mod Pointers
pub mod Objects
