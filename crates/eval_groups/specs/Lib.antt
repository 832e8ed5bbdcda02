pub mod Groups
pub mod Aggregated
