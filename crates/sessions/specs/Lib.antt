pub mod Notices
pub mod ReconnectingSigner
pub mod auxiliary
