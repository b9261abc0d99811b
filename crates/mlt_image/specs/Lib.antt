pub mod View
pub mod Packed
pub mod Kept
pub mod Bordered
