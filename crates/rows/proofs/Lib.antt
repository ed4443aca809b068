pub mod Seen
pub mod Row
pub mod Ready
pub mod Assembled
pub mod UnitRows
