pub mod Combining
pub mod Growing
pub mod Ascending
pub mod Made
pub mod Terms
