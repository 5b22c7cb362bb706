pub mod Prefixes
pub mod Sessions
pub mod Places
pub mod Keeping
pub mod Turns
pub mod Sharing
pub mod Ends
