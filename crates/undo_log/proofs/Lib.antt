pub mod Jobs
pub mod Levels
