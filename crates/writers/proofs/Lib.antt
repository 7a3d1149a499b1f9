pub mod As
pub mod Laws
