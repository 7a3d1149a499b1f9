pub mod Laws
pub mod Once
mod Sofar
