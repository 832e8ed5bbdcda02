pub mod Lists
pub mod Aggregates
pub mod Calls
pub mod Identity
pub mod Accumulated
pub mod Sortable
pub mod AnswerTypes
