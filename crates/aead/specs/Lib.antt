pub mod Aead
