pub mod Tables
pub mod Listed
pub mod Concat
pub mod Pasted
pub mod Ranges
pub mod Chunks
