pub mod Turns
pub mod Short
pub mod Choices
