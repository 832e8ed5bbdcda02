pub mod Constants
pub mod Readers
pub mod Reads
pub mod Values
