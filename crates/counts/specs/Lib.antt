pub mod Counts
pub mod Seen
