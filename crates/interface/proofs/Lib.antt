pub mod NoCall
pub mod Reported
pub mod Told
