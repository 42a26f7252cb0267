pub mod Answers
pub mod Examples
pub mod Heights
pub mod Nodes
pub mod Forms
pub mod Kept
pub mod Lines
pub mod Loops
