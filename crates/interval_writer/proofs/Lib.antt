pub mod Sides
pub mod Repetitions
pub mod Laws
pub mod Lengths
pub mod Longest
