pub mod IdentityOpens
pub mod IdentityLaws
pub mod ChoosingLaws
pub mod AddableLaws
pub mod MeansLaws
pub mod TextLaws
pub mod AnswerLaws
mod TestLaws
