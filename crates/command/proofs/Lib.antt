pub mod Numbers
pub mod Padding
pub mod Temporary
