pub mod Class
pub mod Counts
pub mod Lease
pub mod LeaseLends
pub mod Tally
