pub mod EndsOf
pub mod Found
pub mod Halving
pub mod Parts
pub mod Replaced
pub mod Walked
