pub mod Applied
pub mod Named
mod Rows
