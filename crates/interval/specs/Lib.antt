pub mod Rules
pub mod Followed
pub mod Once
