pub mod Count
pub mod Section
pub mod Read
pub mod Internal
