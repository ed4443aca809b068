pub mod Counts
pub mod Joined
pub mod Rows
pub mod Fronts
pub mod Positions
