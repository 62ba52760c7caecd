pub mod Restless
