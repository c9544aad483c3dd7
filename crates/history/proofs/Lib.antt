pub mod Words
pub mod Condition
pub mod Demand
pub mod Laws
pub mod Rows
mod Examples
