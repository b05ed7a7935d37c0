pub mod Digits
pub mod Lengths
