pub mod Checking
pub mod Spellings
