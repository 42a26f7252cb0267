pub mod Choices
pub mod Leaders
pub mod Looks
pub mod Sources
pub mod Standing
