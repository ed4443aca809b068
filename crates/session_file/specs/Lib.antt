pub mod Below
pub mod Sizes
pub mod Form
pub mod Reader
pub mod Writer
pub mod Numbers
