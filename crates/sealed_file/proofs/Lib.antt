pub mod Rows
pub mod Places
pub mod RoundTrip
pub mod Parts
