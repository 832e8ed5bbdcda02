pub mod Table
pub mod Choices
pub mod Seen
pub mod Opened
pub mod Steps
pub mod Applies
pub mod Fitting
pub mod Asks
