pub mod Asking
pub mod Requests
pub mod CommandEnds
pub mod Running
pub mod Sources
pub mod Stripes
pub mod CommandLines
