pub mod Current
pub mod InForce
pub mod Declared
pub mod Parameters
pub mod Week
