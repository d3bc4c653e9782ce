pub mod Possible
pub mod Runs
