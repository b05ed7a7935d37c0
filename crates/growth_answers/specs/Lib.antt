pub mod Growing
pub mod GrowthListing
pub mod GrowthTextAnswer
