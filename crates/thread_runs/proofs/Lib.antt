pub mod Vocabulary
pub mod Rounds
pub mod Stances
pub mod Lists
pub mod ScriptEnds
pub mod Reports
pub mod Ordering
pub mod Adding
