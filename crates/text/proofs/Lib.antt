pub mod Decimal
pub mod Lengths
pub mod Over
mod Store
