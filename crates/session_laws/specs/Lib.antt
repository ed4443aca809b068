pub mod Sessions
pub mod Statements
