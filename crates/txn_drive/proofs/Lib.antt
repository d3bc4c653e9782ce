pub mod DriveLaws
pub mod MadeLemmas
pub mod TurnLemmas
pub mod WayLemmas
pub mod Quiet
