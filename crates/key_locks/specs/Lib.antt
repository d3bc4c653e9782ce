pub mod Locks
pub mod Chains
pub mod Packed
pub mod Rights
