pub mod Laws
pub mod Secrets
