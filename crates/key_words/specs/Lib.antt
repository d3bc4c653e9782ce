pub mod Kept
pub mod Laws
pub mod Rule
pub mod Seats
pub mod Slots
pub mod Steps
