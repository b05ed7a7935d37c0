pub mod Xored
pub mod Stream
pub mod Encrypted
pub mod Vectors
