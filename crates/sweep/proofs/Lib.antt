pub mod Stepped
pub mod Loops
pub mod Halves
pub mod Room
