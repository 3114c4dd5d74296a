mod Rows
pub mod AlongJourneys
pub mod Clocks
pub mod Comparisons
pub mod Explaining
pub mod Judging
pub mod Reserved
pub mod RowsBefore
