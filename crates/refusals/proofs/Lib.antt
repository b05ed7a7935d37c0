pub mod Meaning
pub mod Worked
pub mod FirstLine
