pub mod TypingClaims
pub mod Untyped
