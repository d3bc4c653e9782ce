pub mod Within
pub mod Keeps
pub mod Taken
pub mod Trimmed
pub mod Effects
