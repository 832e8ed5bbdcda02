pub mod Integers
pub mod Comparisons
pub mod Arrays
pub mod Results
