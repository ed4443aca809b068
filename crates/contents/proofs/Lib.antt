pub mod Counts
pub mod Faults
pub mod Parts
pub mod Groups
pub mod Counted
