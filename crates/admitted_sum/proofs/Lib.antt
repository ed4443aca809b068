pub mod Weighed
pub mod Added
