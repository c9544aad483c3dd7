pub mod Back
pub mod Held
pub mod Most
pub mod Starts
pub mod Suppression
