pub mod Depths
pub mod Inside
pub mod SetWords
pub mod Whole
