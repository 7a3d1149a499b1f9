pub mod Laws
pub mod Decimals
pub mod Sizes
