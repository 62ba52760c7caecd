pub mod Pieces
pub mod Over
pub mod Fetching
pub mod Bounds
pub mod Causes
pub mod Logged
pub mod Statuses
pub mod Clauses
