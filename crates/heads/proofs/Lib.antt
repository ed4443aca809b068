pub mod Heads
pub mod Presents
