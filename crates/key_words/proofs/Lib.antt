pub mod Keeps
pub mod WordSteps
pub mod RightLemmas
