pub mod Replay
pub mod Steps
