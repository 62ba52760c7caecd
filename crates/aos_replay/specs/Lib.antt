pub mod Continues
pub mod Told
pub mod Laws
