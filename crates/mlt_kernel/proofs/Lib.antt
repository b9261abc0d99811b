pub mod Digits
pub mod Writes
pub mod Mixed
pub mod Levels
pub mod Layers
