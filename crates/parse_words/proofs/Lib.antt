pub mod Refusals
pub mod Loops
pub mod Cells
pub mod TypeLevels
