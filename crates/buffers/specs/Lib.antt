pub mod Put
pub mod Handed
