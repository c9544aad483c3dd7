pub mod Event
pub mod Internal
