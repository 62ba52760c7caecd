pub mod Lists
pub mod Views
pub mod Roots
pub mod Rooms
