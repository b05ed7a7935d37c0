pub mod Open
pub mod Rows
