pub mod Ways
pub mod Classes
pub mod Words
pub mod Exprs
pub mod Queries
pub mod Knot
