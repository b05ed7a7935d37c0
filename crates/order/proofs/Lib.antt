-- The laws of the order and of its table.
pub mod Lists
pub mod Order
pub mod Table
pub mod Exact
pub mod Laws
pub mod Example
