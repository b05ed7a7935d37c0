pub mod File
pub mod Record
pub mod Whole
pub mod Derive
pub mod Labels
pub mod Reads
pub mod Rows
