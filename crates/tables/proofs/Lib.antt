pub mod Every
pub mod Power
pub mod Scale
pub mod Examples
