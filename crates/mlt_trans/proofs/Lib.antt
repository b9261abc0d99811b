pub mod Rowwise
pub mod Wiped
pub mod Laid
pub mod Merged
