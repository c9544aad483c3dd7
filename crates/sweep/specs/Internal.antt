-- What contracts and proofs use and a reader need not believe.
pub mod Step
pub mod Sweep
pub mod Part
