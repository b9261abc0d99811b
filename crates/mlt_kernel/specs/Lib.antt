pub mod Alphas
pub mod Words
