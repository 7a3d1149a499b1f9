pub mod As
pub mod Laws
pub mod Once
pub mod Far
pub mod Letters
