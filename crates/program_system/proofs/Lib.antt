pub mod Asking
pub mod Building
pub mod Numerals
