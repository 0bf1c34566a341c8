pub mod Requests
pub mod Drawn
pub mod Asking
pub mod WayIn
