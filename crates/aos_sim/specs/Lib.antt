pub mod Search
pub mod Code
pub mod Cells
pub mod Shows
pub mod Judges
pub mod Rewriting
pub mod Need
pub mod Monitors
