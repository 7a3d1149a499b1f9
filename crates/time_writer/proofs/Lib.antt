pub mod Nine
pub mod Lengths
pub mod Within
pub mod Yields
pub mod Laws
pub mod Kept
