mod PartedLaws
mod GroupLaws
mod AggregateLaws
pub mod AggregableLaws
mod TestLaws
