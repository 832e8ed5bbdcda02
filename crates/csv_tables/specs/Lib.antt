pub mod Cells
pub mod Reads
pub mod Records
pub mod Tables
