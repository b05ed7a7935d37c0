pub mod Ending
pub mod Reading
