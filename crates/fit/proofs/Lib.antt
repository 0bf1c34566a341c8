pub mod Ranges
pub mod Plain
pub mod Unfit
pub mod Search
pub mod Values
