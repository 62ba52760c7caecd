pub mod Turned
pub mod Forth
pub mod Owned
pub mod Called
