mod Examples
mod FitLaws
mod NumberLaws
mod StepLaws
mod ValueLaws
