pub mod LittleEndian
pub mod Words
