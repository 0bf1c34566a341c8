pub mod Bounds
pub mod Points
pub mod Always
pub mod Station
