mod Tries
mod Searches
mod Searched
mod Taken
pub mod FitsOperands
pub mod FitsSteps
pub mod FitsWalks
pub mod FitsFrames
pub mod FitsLost
pub mod FitsCells
