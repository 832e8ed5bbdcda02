pub mod OutcomeLaws
pub mod Orders
pub mod Opens
pub mod TypeTextLaws
pub mod Stretches
pub mod CalendarLaws
pub mod CalendarCalls
pub mod DateTextLaws
mod CalendarExamples
mod TypeTextExamples
pub mod TypeOpens
pub mod ValueOpens
pub mod SameLaws
pub mod EqualSteps
pub mod TestParts
pub mod EqualLaws
pub mod OrderLaws
mod Examples
pub mod ArrangedLaws
