pub mod Bytes
pub mod Search
pub mod Form
pub mod Named
pub mod Padding
