pub mod Classes
pub mod Counting
