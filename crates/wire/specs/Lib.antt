pub mod Number
pub mod Real
pub mod Bits
pub mod Internal
