pub mod File
pub mod Record
pub mod Whole
pub mod Counts
pub mod Rows
