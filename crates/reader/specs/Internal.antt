-- What contracts and proofs use and a reader need not believe.
pub mod Sound
pub mod Alarms
