pub mod ExaminedStamps
pub mod Explained
pub mod FileStores
pub mod GoingOn
pub mod InDatabases
pub mod PastRows
