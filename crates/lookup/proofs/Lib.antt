pub mod Keys
pub mod Parts
pub mod Opening
pub mod Lookup
pub mod Rooms
pub mod Those
pub mod Held
pub mod Week
