pub mod ExprPieces
pub mod Pages
pub mod PartPieces
pub mod QueryPieces
pub mod ReadBack
pub mod TreePieces
