pub mod Fronts
pub mod Texts
pub mod Machines
pub mod Readers
