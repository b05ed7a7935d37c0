pub mod Writes
pub mod Handed
pub mod Unless
pub mod Handing
