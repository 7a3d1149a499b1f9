pub mod Parts
pub mod Dash
pub mod Dashed
pub mod Laws
pub mod Missed
