pub mod Alike
pub mod Files
pub mod Stands
pub mod Stops
pub mod TablesOf
pub mod auxiliary
