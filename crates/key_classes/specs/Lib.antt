pub mod Classes
pub mod Fed
pub mod Keys
pub mod KeyLaws
