pub mod Fit
pub mod Curve
pub mod Answer
pub mod Sound
pub mod Week
