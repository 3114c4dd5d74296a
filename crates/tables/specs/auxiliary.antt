pub mod Creation
pub mod Shown
pub mod Steps
pub mod Told
