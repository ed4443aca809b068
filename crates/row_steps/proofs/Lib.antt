pub mod Masked
pub mod MaskStart
pub mod Shown
