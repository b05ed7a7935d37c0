pub mod Sealed
pub mod Rows
