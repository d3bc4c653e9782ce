pub mod Places
pub mod Desks
pub mod Changes
pub mod Commits
pub mod Holding
pub mod Reasons
