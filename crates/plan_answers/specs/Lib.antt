pub mod TreeFile
pub mod TreeRows
pub mod Planned
pub mod Weighing
