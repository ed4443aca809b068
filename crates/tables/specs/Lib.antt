pub mod Power
pub mod Scale
