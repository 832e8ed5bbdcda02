pub mod Checks
pub mod TypeNames
pub mod Written
pub mod TypeTexts
