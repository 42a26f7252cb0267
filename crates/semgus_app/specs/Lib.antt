pub mod Commands
pub mod Contents
pub mod Dues
pub mod Files
pub mod Lines
pub mod Outputs
pub mod Statuses
pub mod Tasks
