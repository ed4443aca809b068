pub mod Record
pub mod Report
pub mod Returned
