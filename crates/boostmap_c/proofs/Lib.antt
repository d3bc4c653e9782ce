mod Heap
pub mod PointerWords
pub mod MapWords
pub mod RefereeWords
pub mod MemberWords
pub mod KeeperWords
pub mod Referees
pub mod Feeding
pub mod Back
pub mod Reading
pub mod Naming
