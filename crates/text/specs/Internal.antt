-- What contracts and proofs use and a reader need not believe.
pub mod Failure
pub mod Pieces
pub mod Row
