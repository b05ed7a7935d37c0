pub mod Marks
pub mod Bytes
pub mod Names
pub mod Digits
pub mod Search
pub mod Form
