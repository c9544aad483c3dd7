pub mod Entries
pub mod Forms
pub mod Patterns
