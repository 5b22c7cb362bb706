pub mod Choosing
pub mod Drawn
pub mod Passing
pub mod Replaying
pub mod Standing
-- Laws of these, which proofs of this crate and of others cite.
pub mod laws
