pub mod Searches
pub mod Answers
pub mod MeantBy10
pub mod MeantBy12
pub mod Front
pub mod Worked
