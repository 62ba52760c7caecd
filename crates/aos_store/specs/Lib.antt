pub mod Objects
pub mod Store
pub mod Room
