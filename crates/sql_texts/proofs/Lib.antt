pub mod Numbers
pub mod Marked
pub mod Openings
pub mod PlainValues
pub mod Lists
pub mod Fronts
pub mod RowLaws
