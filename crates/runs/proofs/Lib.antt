pub mod Along
pub mod Prefix
pub mod Nanoseconds
pub mod Factors
