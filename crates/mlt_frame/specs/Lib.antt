pub mod Fits
pub mod Frame
pub mod Loads
pub mod Names
pub mod Ranges
pub mod Registers
pub mod Stack
pub mod Started
