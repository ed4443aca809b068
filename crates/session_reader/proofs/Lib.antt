pub mod Products
pub mod Faults
pub mod Payloads
pub mod Readings
pub mod Rows
pub mod Loads
