pub mod Codes
pub mod Exactness
pub mod Lenses
pub mod Meanings
