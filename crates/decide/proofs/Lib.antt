pub mod Clocks
pub mod Judgement
pub mod Lists
pub mod Rows
pub mod Sentences
