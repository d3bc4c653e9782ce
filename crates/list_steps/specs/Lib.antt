pub mod Content
pub mod Found
pub mod Seek
pub mod Steps
pub mod Text
