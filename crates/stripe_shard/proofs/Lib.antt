pub mod Lookups
pub mod Pairs
pub mod Passes
pub mod Rounds
pub mod Tables
pub mod Calls
pub mod Rows
