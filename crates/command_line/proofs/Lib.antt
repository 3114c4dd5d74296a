pub mod Commands
pub mod Refusals
pub mod Rows
pub mod Stated
