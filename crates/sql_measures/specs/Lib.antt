pub mod PartDepths
pub mod PartWeights
pub mod TreeDepths
pub mod TreeWeights
