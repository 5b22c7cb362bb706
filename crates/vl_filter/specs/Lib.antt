pub mod Bits
pub mod Filters
pub mod Places
-- Laws of these, which proofs of this crate and of others cite.
pub mod laws
