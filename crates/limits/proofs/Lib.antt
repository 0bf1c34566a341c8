pub mod Signed
pub mod Turns
pub mod Laminations
pub mod Single
