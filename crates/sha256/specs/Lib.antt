pub mod Sha256
pub mod Digest
