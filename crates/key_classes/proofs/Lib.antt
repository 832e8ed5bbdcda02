pub mod ClassLaws
mod FedLaws
mod IndexLaws
