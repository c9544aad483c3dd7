pub mod Laws
mod Steps
