pub mod Passed
pub mod Slots
pub mod Entries
pub mod Intervals
pub mod Holding
