pub mod Parts
pub mod Single
