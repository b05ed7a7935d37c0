pub mod Lists
pub mod Schedule
pub mod Rounds
