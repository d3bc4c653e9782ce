pub mod Places
pub mod Meets
pub mod Following
pub mod Flaws
pub mod Texts
