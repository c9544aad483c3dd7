pub mod Laws
pub mod Cut
pub mod Sound
