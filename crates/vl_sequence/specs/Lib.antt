pub mod Causes
pub mod Clients
pub mod Counted
pub mod Counting
pub mod Leases
pub mod Sequences
pub mod Takings
-- Laws of these, which proofs of this crate and of others cite.
pub mod laws
