pub mod KeptTokens
pub mod Marked
pub mod Reads
pub mod TypeStarts
