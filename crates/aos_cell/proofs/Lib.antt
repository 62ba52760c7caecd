pub mod Totals
pub mod Masks
pub mod Steps
pub mod Schedules
pub mod Passes
