pub mod Layout
pub mod Frame
pub mod TypeParts
pub mod Work
pub mod Cells
pub mod Seen
pub mod Block
pub mod Marks
