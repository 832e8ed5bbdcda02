pub mod Joins
pub mod SpellingLemmas
pub mod Written
