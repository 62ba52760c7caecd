pub mod Turns
pub mod Rounds
pub mod Held
pub mod Loaned
pub mod Several
pub mod Runs
