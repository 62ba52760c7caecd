pub mod Signatures
pub mod Assignable
pub mod Arrays
pub mod TypeNames
