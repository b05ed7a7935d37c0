-- The definitions that the contracts cite.
pub mod Order
pub mod Table
