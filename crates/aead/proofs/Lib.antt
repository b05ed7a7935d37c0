pub mod Data
pub mod Lengths
pub mod Laws
pub mod Vectors
