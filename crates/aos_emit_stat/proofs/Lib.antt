pub mod Patch
pub mod Pending
pub mod Made
pub mod Stash
pub mod Sorts
pub mod Searches
pub mod Ways
