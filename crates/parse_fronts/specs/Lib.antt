pub mod ExprFronts
