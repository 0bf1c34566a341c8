pub mod Computed
pub mod Cases
pub mod Limits
pub mod Stays
pub mod First
pub mod Settled
