pub mod InRange
pub mod Joined
pub mod KeptEntries
pub mod Known
pub mod Lines
pub mod OnLine
pub mod PlainPieces
pub mod Writes
