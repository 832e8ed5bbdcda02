pub mod Catalogs
pub mod Nodes
pub mod Over
pub mod Refines
pub mod Agrees
pub mod Plain
pub mod Spelt
pub mod Shows
