mod Failures
mod Rows
