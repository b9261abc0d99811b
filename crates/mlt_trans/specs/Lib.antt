pub mod Columns
pub mod Maps
pub mod Placed
pub mod Shares
pub mod Rows
pub mod Ready
