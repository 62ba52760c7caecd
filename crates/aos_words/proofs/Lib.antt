mod Numerals
mod Steps
mod First
mod Ranges
