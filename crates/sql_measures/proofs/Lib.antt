mod Caps
pub mod DepthLaws
pub mod WeightLaws
