pub mod Judging
pub mod Elaborating
pub mod Feeding
