pub mod Mapped
pub mod Joined
