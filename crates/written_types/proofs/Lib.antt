pub mod WrittenLaws
mod Whole
