pub mod Drives
pub mod Made
pub mod Turns
pub mod Ways
