pub mod Entries
pub mod Views
pub mod Rule
pub mod Steps
pub mod Tokens
pub mod Locks
pub mod Fails
pub mod Lending
