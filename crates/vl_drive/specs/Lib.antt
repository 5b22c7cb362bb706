pub mod Accounts
pub mod Answers
pub mod Clients
pub mod Driven
pub mod Entries
pub mod Knowing
pub mod Modest
pub mod Numbers
pub mod Players
pub mod Playing
pub mod Refused
pub mod Small
pub mod Steps
pub mod Stores
pub mod Turns
-- Laws of these, which proofs of this crate and of others cite.
pub mod laws
