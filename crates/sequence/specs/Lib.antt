pub mod Positions
pub mod Chunks
pub mod Demand
pub mod Cuts
