-- What contracts and proofs use and a reader need not believe.
pub mod Events
pub mod Bits
pub mod Source
pub mod Kind
