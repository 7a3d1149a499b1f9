pub mod Points
pub mod Sides
