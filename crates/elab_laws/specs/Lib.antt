pub mod Flowing
pub mod Places
