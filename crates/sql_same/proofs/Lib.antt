pub mod BareLaws
pub mod BareSame
pub mod CountLaws
pub mod TypeLaws
pub mod ExprLaws
pub mod TreeLaws
