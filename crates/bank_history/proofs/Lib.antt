mod Views
pub mod Banks
mod Logs
pub mod Lists
pub mod Enough
mod Reported
mod Lent
pub mod Statements
