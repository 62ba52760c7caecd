pub mod Grammar
pub mod Symbols
pub mod Unambiguous
