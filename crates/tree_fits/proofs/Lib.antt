mod Lists
pub mod SameTypes
pub mod WalkTypes
pub mod RowFits
mod ColumnsSeen
pub mod Sure
pub mod FittingForms
mod FittingParts
pub mod FittingCalls
pub mod FittingFolds
mod TakenColumns
pub mod NodeFacts
mod FittingLet
mod FittingRex
mod ScanRows
mod FittingCtes
mod FittingUnnest
mod FittingProject
mod FittingScans
mod ScanNodes
pub mod PartFits
pub mod TreeFits
