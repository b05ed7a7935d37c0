pub mod Tables
pub mod Verbs
