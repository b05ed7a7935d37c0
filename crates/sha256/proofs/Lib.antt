pub mod Chain
pub mod Joined
pub mod Last
pub mod Lists
pub mod Hash
pub mod Examples
