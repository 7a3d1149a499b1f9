pub mod Laws
pub mod Steps
pub mod Once
mod Along
mod Short
