pub mod Prime
pub mod Limbs
pub mod Columns
