pub mod Answers
pub mod Turns
pub mod Calls
pub mod Makes
pub mod Private
pub mod InPlace
pub mod Many
pub mod Verdicts
