-- The lines of merges.
pub mod Choosing
pub mod Counting
pub mod Filling
pub mod Keeping
pub mod Planned
pub mod Planning
pub mod Waiting
pub mod Carrying
pub mod Installs
pub mod Dropping
pub mod Opened
pub mod Lists
pub mod Rounds
