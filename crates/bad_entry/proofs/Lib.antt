pub mod Noted
pub mod Fronts
pub mod Steps
pub mod Torn
