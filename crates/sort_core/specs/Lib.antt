pub mod Opens
pub mod Branches
pub mod Sorts
pub mod Relations
pub mod Errors
