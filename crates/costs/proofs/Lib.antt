pub mod Prices
pub mod Costs
pub mod Absent
pub mod Always
pub mod Retired
