pub mod Settling
pub mod Laws
