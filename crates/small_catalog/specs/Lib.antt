pub mod Catalogs
pub mod Reads
