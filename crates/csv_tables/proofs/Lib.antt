pub mod Texts
pub mod RecordLaws
pub mod RowLaws
pub mod CellLaws
pub mod FitLaws
pub mod TableLaws
