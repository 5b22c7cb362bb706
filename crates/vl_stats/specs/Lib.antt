pub mod Live
pub mod Places
pub mod Sums
pub mod Tallies
-- Laws of these, which proofs of this crate and of others cite.
pub mod laws
