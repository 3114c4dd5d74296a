pub mod Chosen
pub mod Scripted
