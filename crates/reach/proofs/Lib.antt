pub mod Counted
pub mod Days
pub mod Seconds
pub mod Laws
pub mod Reached
