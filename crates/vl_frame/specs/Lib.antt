pub mod Begins
pub mod Frame
pub mod Header
pub mod FrameFields
pub mod Runs
-- Laws of these, which proofs of this crate and of others cite.
pub mod laws
