pub mod WithBrackets
