pub mod Opening
pub mod Runs
