pub mod Starts
pub mod Positions
pub mod Heads
pub mod Lengths
