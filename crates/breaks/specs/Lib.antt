pub mod Breaks
pub mod Standing
