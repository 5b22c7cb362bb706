pub mod Calls
pub mod Leaving
pub mod Listed
pub mod Steps
