pub mod TypingLaws
pub mod MeaningLaws
