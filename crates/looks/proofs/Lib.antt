pub mod Choices
pub mod Two
pub mod Parts
pub mod Thousandths
