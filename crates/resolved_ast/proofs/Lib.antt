pub mod NumeralLaws
pub mod PageLaws
pub mod TextLaws
pub mod FitLaws
pub mod Smaller
pub mod Tied
pub mod Steps
pub mod WalkLaws
pub mod MeaningLaws
pub mod Outcomes
pub mod TestFits
mod TreeTextExamples
