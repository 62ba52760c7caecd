pub mod Operations
pub mod Forms
