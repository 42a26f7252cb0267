pub mod Surveys
pub mod Dues
pub mod Steps
pub mod TermTypes
pub mod Faultless
