pub mod Algorithms
pub mod Digits
pub mod Judgement
pub mod Rows
pub mod Writes
