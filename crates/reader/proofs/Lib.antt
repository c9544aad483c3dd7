pub mod Sections
pub mod Alarms
pub mod Settled
pub mod Sound
mod Examples
pub mod Full
