pub mod Laws
pub mod Once
pub mod Differences
pub mod Instants
