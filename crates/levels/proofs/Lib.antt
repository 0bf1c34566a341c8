pub mod Whole
pub mod Reading
