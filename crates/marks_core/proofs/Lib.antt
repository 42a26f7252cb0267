pub mod Answered
pub mod Marked
pub mod Placed
pub mod Tabled
