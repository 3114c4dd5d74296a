pub mod Clock
pub mod Rules
pub mod Verdict
pub mod View
pub mod auxiliary
