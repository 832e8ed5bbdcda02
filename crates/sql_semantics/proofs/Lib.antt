pub mod Trees
pub mod SmallCatalog
pub mod UnbuiltLaws
pub mod TypingLaws
pub mod MeaningLaws
pub mod Computing
pub mod ChoiceExamples
mod TypedExamples
mod RefusedExamples
mod FaultyExamples
mod ScopeExamples
pub mod OnlyLaws
pub mod TwoLaws
pub mod Evaluating
pub mod MeantExamples
mod QueryExamples
mod NameExamples
mod CteExamples
mod CatalogExamples
mod ValueExamples
