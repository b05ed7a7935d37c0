pub mod Asked
pub mod By
pub mod Answers
pub mod Zeros
pub mod Words
pub mod Front
