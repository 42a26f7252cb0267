pub mod Fitting
pub mod Making
pub mod Rules
pub mod Soundness
