pub mod Scopes
pub mod Typing
pub mod Tables
pub mod Meaning
