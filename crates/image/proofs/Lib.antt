pub mod Images
pub mod Blocks
pub mod Inverse
pub mod RoundTrip
pub mod Numbers
