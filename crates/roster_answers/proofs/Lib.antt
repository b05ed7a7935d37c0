pub mod Counted
pub mod Files
pub mod Issue
pub mod Recounted
pub mod Answered
pub mod RosterParts
pub mod RosterWidths
pub mod Records
