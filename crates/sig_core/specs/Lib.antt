pub mod Lists
pub mod Names
pub mod Orders
pub mod Refusals
pub mod Signatures
pub mod Texts
pub mod Values
pub mod WellFormed
