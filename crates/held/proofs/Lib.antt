pub mod Made
pub mod Durations
