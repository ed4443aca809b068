pub mod Saved
pub mod Resumed
pub mod Extended
pub mod Through
pub mod SavedD
