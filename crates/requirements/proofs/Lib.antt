pub mod Always
pub mod Curve
pub mod Fuel
pub mod Window
