pub mod LensLaws
pub mod Marking
pub mod Tables
