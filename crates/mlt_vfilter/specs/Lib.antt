pub mod Pixels
pub mod Places
pub mod Neutral
pub mod Rows
