pub mod Banks
pub mod Keys
pub mod Laws
pub mod Marks
pub mod Nodes
pub mod Terms
pub mod Typings
