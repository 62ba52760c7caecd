pub mod Words
pub mod Number
pub mod Listing
pub mod Refusals
pub mod Rest
pub mod Join
pub mod Print
pub mod Laws
