pub mod Thresholds
