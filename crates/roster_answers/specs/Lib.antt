pub mod Rostered
pub mod Counted
pub mod Issue
pub mod Standings
pub mod RosterText
pub mod Records
pub mod Rows
