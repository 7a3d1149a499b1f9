pub mod Asked
pub mod Answers
pub mod Short
pub mod Once
