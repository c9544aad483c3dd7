-- What contracts and proofs use and a reader need not believe.
pub mod Cells
