pub mod Texts
pub mod Digits
pub mod Yields
pub mod Laws
pub mod Signs
