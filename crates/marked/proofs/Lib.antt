mod Cases
pub mod Marked
