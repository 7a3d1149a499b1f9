mod Parts
mod Heads
mod Search
pub mod Laws
pub mod Once
