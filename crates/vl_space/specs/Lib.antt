pub mod Collecting
pub mod Pinning
pub mod Removing
pub mod Retiring
pub mod Sweeping
-- Laws of these, which proofs of this crate and of others cite.
pub mod laws
