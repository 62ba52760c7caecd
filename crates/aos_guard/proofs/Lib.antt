pub mod Each
pub mod Tests
pub mod Texts
pub mod Edges
pub mod Adds
pub mod Initial
pub mod Found
pub mod Tellings
