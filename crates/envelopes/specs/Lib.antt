pub mod Secrets
pub mod Envelope
pub mod Labels
