pub mod Batches
pub mod Faults
pub mod Passing
pub mod Standing
pub mod Taking
-- Laws of these, which proofs of this crate and of others cite.
pub mod laws
