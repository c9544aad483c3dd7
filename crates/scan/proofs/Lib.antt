pub mod Bridge
mod Checked
pub mod Fits
pub mod Plans
pub mod Scans
