pub mod Instances
pub mod Laws
pub mod Lookups
pub mod Rulebooks
pub mod Flow
pub mod Modes
pub mod Numbers
