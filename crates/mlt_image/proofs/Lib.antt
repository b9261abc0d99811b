pub mod Tiled
pub mod Packing
pub mod Across
pub mod Mixes
pub mod RowsKept
pub mod Parts
pub mod Frames
pub mod Lanes
