pub mod Moments
pub mod Far
