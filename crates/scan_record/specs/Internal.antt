-- What contracts and proofs use and a reader need not believe.
pub mod Size
pub mod Forms
