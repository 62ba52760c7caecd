pub mod Holder
pub mod Fill
