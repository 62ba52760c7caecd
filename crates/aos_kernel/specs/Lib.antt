pub mod Log
pub mod Run
pub mod Conditions
pub mod Shows
pub mod Lends
pub mod Asked
pub mod Keeps
pub mod Steps
