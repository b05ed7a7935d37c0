pub mod Numbers
pub mod Masks
pub mod Blocks
pub mod Tags
pub mod Vectors
