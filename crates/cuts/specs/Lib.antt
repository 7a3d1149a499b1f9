pub mod Cuts
pub mod Said
