pub mod Computed
pub mod Cases
pub mod Fit
pub mod ByMark
pub mod Draws
pub mod Sound
pub mod Week
