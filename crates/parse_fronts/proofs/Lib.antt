pub mod FrontLaws
pub mod PartLaws
pub mod StarLaws
