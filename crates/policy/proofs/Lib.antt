pub mod Among
pub mod Searches
pub mod Kept
pub mod Keys
pub mod KindsRead
pub mod EntriesRead
pub mod SoundRecords
pub mod Rows
