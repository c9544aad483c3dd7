-- What contracts and proofs use and a reader need not believe.
pub mod Bank
pub mod Blocks
pub mod Words
pub mod Load
