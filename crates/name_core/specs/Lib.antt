pub mod Faults
pub mod States
pub mod Bodies
pub mod Limits
pub mod Walks
pub mod Names
pub mod Readings
