pub mod Counts
pub mod Places
pub mod Taken
pub mod Trimmed
