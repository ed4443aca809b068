pub mod ExpNeg
pub mod Blocks
