pub mod Added
pub mod Clocks
pub mod Entered
pub mod Fits
pub mod Opened
pub mod Successions
pub mod Wrapped
