pub mod Cutting
pub mod Laws
pub mod Once
pub mod Sofar
