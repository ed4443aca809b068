pub mod Examples
pub mod Whole
pub mod Rest
pub mod Bounds
pub mod HalfPowers
pub mod Laws
pub mod Blocks
pub mod Bits
