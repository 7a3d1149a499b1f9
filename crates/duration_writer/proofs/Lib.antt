pub mod Sizes
pub mod Within
pub mod Parts
pub mod Laws
pub mod Longest
