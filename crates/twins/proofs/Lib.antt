pub mod Root
pub mod Tree
pub mod Seen
pub mod Way
pub mod Loop
