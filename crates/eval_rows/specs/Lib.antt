pub mod Met
pub mod Joins
pub mod ByClass
pub mod Counts
pub mod Sets
pub mod EqualKeys
