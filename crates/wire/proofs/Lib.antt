pub mod Laws
pub mod Reals
pub mod WordLaws
pub mod Packing
pub mod MaskLaws
pub mod Masks
mod Examples
pub mod Front
