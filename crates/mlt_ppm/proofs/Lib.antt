pub mod Pixels
pub mod Lanes
pub mod Colours
pub mod Again
