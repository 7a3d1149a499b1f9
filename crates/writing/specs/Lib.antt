pub mod Spelling
pub mod Writing
