pub mod Crosses
pub mod Memory
pub mod Sharing
pub mod Sizes
pub mod Whole
pub mod Zeros
