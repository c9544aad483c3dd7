pub mod Command
pub mod Internal
