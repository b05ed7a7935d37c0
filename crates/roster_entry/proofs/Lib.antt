pub mod OneEntry
pub mod Sizes
