pub mod Tables
pub mod Buffer
