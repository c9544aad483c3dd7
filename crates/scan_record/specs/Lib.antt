pub mod Part
pub mod Entry
pub mod Check
pub mod Internal
