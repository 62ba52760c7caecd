pub mod Schedules
pub mod Passing
