pub mod Slots
pub mod Tabulate
pub mod Cells
pub mod InPlace
pub mod Parts
pub mod Written
pub mod Tails
pub mod Blocks
