pub mod Encryption
