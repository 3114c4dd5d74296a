pub mod Calendar
pub mod GenTime
pub mod GenTimeFault
pub mod auxiliary
