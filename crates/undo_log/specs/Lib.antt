pub mod InlineJobs
pub mod SideValue
pub mod Sides
pub mod UndoLog
