pub mod Round
pub mod Holding
pub mod Run
