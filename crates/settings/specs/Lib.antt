pub mod Refusals
pub mod Counts
pub mod Alarm
pub mod Condition
pub mod Numbers
pub mod Rules
pub mod Severity
pub mod Internal
