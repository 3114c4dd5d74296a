pub mod Components
pub mod Fraction
pub mod Pairs
