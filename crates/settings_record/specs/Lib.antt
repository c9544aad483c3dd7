pub mod Record
pub mod Internal
