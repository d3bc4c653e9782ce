pub mod Asking
pub mod Requests
pub mod Seeds
pub mod Worked
