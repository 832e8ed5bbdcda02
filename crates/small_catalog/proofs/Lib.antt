pub mod ViewLaws
pub mod ColumnLaws
pub mod CatalogLaws
