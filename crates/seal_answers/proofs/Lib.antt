pub mod Answers
pub mod Sealing
pub mod Demand1
pub mod Front
