pub mod Days
pub mod Fractions
pub mod Moments
pub mod Pairs
pub mod Rows
pub mod Texts
