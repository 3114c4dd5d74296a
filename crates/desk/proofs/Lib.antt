pub mod stamps
pub mod documents
pub mod journeys
pub mod rows
pub mod calls
