pub mod GrowthAnswer
pub mod GrowthParts
pub mod GrowthWidths
pub mod GrowthTextAnswer
pub mod Front
pub mod WorkedGrowth
