pub mod Kinds
pub mod Far
