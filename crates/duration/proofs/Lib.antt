pub mod Laws
pub mod Items
pub mod Looks
pub mod Reading
pub mod Whole
