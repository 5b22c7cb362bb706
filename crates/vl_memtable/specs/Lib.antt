pub mod Contents
pub mod Facts
pub mod Heads
pub mod Lengths
pub mod Rows
-- Laws of these, which proofs of this crate and of others cite.
pub mod laws
