pub mod Once
pub mod Laws
