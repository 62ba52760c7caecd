pub mod Parameters
pub mod Laid
