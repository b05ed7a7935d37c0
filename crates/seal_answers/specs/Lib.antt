pub mod Seal
pub mod Rows
