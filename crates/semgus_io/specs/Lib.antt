pub mod Counts
pub mod Reads
pub mod Writes
pub mod Entries
pub mod Memory
pub mod MemorySinks
pub mod Steady
pub mod SteadySinks
