pub mod opening
pub mod repairing
pub mod crash
-- Laws of these, which proofs of this crate and of others cite.
pub mod laws
