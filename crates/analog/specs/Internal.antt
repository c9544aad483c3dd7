-- What contracts and proofs use and a reader need not believe.
pub mod Analog
pub mod Inputs
pub mod Packed
