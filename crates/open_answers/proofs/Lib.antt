pub mod Answers
pub mod Opening
pub mod Sealed
pub mod Demand1
pub mod Front
