pub mod Machine
pub mod Escapes
pub mod Marked
pub mod Lexed
pub mod Spans
