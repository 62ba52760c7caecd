pub mod Called
pub mod Bodies
pub mod Listed
