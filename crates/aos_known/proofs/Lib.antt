pub mod Inside
pub mod Types
pub mod First
