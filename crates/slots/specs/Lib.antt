pub mod Slots
pub mod Choosing
