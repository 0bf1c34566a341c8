pub mod Test
pub mod Refusals
pub mod Verdict
pub mod First
