pub mod BySlots
