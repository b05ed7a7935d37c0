pub mod Hanging
pub mod Marks
