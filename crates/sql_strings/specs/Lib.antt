pub mod Texts
pub mod Patterns
pub mod Hex
pub mod Rows
