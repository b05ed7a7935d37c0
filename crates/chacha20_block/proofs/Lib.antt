pub mod Lengths
pub mod Steps
pub mod Vectors
