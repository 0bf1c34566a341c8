pub mod Packed
pub mod Single
