pub mod Denied
pub mod Grants
pub mod KnownDeposits
pub mod Late
pub mod NewDeposits
pub mod Shows
pub mod Sighted
