pub mod Sums
pub mod Trees
pub mod Order
pub mod Weights
pub mod Published
pub mod Accounts
pub mod Growth
