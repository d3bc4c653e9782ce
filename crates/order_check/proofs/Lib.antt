pub mod Places
pub mod Values
pub mod Forced
pub mod Cycles
pub mod Alike
pub mod SearchSteps
pub mod Cases
pub mod Versions
pub mod ByCommits
pub mod Work
pub mod SearchTurns
pub mod CycleSearch
pub mod Shortening
pub mod Rooting
pub mod Noting
pub mod Replacing
pub mod Adding
pub mod AccessEdges
pub mod Meanings
pub mod Turning
pub mod Feeding
pub mod Numbers
pub mod Histories
pub mod Choosing
pub mod Finishing
pub mod Certain
pub mod AccessOrder
pub mod Gathering
pub mod EntrySteps
pub mod AccessOutcomes
mod Writing
pub mod Misshapen
mod Latest
mod Knowing
mod SourcesLeft
pub mod Beginnings
pub mod RealTimes
pub mod SinceSteps
pub mod Strictly
pub mod Times
