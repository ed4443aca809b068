pub mod Elements
pub mod Admission
pub mod Formula
pub mod Outcomes
pub mod Entries
pub mod StepLent
pub mod Calls
pub mod Table
