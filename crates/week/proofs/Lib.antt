pub mod Signed
pub mod Stands
pub mod Reading
pub mod Told
