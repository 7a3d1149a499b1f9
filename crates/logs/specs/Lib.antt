pub mod Table
pub mod Log
