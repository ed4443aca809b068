pub mod Readings
pub mod Savings
