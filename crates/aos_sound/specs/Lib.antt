pub mod Sound
pub mod Stacks
pub mod Search
pub mod Fits
pub mod FitFrames
pub mod Undecided
