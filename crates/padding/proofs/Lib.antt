pub mod Padding
pub mod TwoWords
