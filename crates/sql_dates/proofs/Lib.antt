mod Widths
pub mod ArgumentLaws
pub mod FitLaws
pub mod RowLaws
mod PartExamples
pub mod PartLaws
