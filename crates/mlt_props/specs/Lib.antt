pub mod BadName
pub mod Contents
pub mod Entries
