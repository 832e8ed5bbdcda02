pub mod AddLaws
pub mod NameLaws
pub mod SlotLaws
