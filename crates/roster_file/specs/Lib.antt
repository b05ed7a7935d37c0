pub mod Machine
pub mod File
pub mod Whole
pub mod Counts
pub mod Rows
