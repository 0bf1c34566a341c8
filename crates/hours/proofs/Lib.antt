pub mod Emptied
pub mod Marks
pub mod Turn
pub mod Filled
pub mod Undated
pub mod Loop
pub mod Owned
