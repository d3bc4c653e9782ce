pub mod Failures
pub mod Words
pub mod Runs
