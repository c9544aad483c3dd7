pub mod Heads
pub mod Logs
pub mod Lowest
pub mod Slots
pub mod Stores
