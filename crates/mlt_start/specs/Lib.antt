pub mod Asked
pub mod Code
pub mod Found
pub mod Pushed
