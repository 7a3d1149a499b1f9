pub mod Digits
pub mod Offset
pub mod Date
pub mod Clock
