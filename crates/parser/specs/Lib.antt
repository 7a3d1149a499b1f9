pub mod Reading
pub mod Digits
pub mod Fields
pub mod Answer
pub mod Read
pub mod Told
