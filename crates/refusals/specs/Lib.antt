pub mod Line
pub mod Refusals
