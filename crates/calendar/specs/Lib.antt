pub mod Calendar
pub mod Far
