pub mod Changed
pub mod Gaps
pub mod Overlaps
pub mod Parts
pub mod Place
pub mod Playlist
