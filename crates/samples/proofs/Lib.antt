pub mod Vocabulary
pub mod Adding
pub mod Commits
pub mod Merging
pub mod Tries
pub mod Whole
pub mod Whys
pub mod Works
