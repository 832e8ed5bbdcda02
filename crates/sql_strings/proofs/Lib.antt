mod Examples
pub mod ValueLaws
pub mod SearchLaws
pub mod CharLaws
pub mod PieceLaws
pub mod PatternLaws
pub mod TrimLaws
pub mod HexLaws
pub mod RepeatLaws
pub mod JoinLaws
