pub mod Shaping
pub mod ListExps
pub mod FormInduction
pub mod Misfitting
pub mod MisfitLaws
