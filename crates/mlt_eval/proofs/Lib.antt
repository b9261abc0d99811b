pub mod Cleared
pub mod Downs
pub mod Fitting
pub mod Lending
pub mod Merged
pub mod Stepped
