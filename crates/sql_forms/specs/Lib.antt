pub mod Conditions
pub mod Subscripts
pub mod Rows
