pub mod Judged
pub mod Judgements
pub mod Outcomes
