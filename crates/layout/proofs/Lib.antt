pub mod Laws
pub mod Stores
pub mod Blocks
pub mod Back
pub mod Stay
