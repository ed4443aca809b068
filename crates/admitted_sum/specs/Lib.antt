pub mod Sums
pub mod Masks
