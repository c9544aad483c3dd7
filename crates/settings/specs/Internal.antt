-- What contracts and proofs use and a reader need not believe.
pub mod Few
pub mod Sound
pub mod Reals
pub mod Replies
