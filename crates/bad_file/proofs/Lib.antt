pub mod Faults
pub mod Founds
pub mod Pieces
pub mod Places
pub mod EntryElements
pub mod Viewed
pub mod Flaws
