pub mod Few
pub mod Followed
pub mod Levels
