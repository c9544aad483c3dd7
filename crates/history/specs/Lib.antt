pub mod Past
pub mod Demand
pub mod Words
pub mod Internal
