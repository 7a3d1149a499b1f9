pub mod Stores
pub mod Laws
pub mod Choosing
