pub mod RefineLaws
mod NodeExamples
