pub mod FormLaws
pub mod FormOutcomes
pub mod FormExamples
