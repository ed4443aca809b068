pub mod Examples
pub mod Below
pub mod Joined
pub mod Walks
pub mod Limits
pub mod Elements
pub mod Caches
pub mod Nexts
