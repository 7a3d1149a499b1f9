pub mod Keeping
pub mod Pieces
