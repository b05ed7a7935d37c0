pub mod Examples
pub mod Turns
pub mod Reading
pub mod Agree
pub mod Above
