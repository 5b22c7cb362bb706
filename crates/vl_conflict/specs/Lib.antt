pub mod Notes
pub mod Recent
pub mod Trees
-- Laws of these, which proofs of this crate and of others cite.
pub mod laws
