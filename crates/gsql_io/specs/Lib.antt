pub mod Files
pub mod Host
pub mod Memory
pub mod Outside
pub mod Whole
