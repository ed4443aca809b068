pub mod Fronts
pub mod Places
pub mod Numbers
pub mod RowFronts
pub mod Records
