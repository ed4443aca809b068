pub mod Numbers
pub mod Sessions
