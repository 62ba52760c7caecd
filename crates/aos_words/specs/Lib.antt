pub mod Number
pub mod Forms
pub mod Words
pub mod Shown
