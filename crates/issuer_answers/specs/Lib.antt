pub mod Keys
pub mod Issue
pub mod Rows
