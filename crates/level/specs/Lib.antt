pub mod Level
pub mod Internal
