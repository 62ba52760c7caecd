pub mod Topmost
pub mod Oks
pub mod Arguments
pub mod Lengths
pub mod Walks
pub mod Stepped
pub mod Roomy
pub mod Knowing
pub mod Telling
pub mod Extending
pub mod Evaluating
mod Receivers
mod Applying
