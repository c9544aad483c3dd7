mod Asked
mod Assemble
pub mod Laws
mod Rows
mod Words
mod Steps
mod Sensed
