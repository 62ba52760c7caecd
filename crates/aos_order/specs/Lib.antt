pub mod Files
pub mod Placing
pub mod Order
pub mod Laws
