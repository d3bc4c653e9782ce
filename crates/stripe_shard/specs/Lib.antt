pub mod MapAt
pub mod Probes
pub mod Slots
pub mod ShardAt
pub mod Calls
pub mod Stored
