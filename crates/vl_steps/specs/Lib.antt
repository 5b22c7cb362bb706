pub mod Answers
pub mod Drawing
pub mod Flushing
pub mod Installing
pub mod Keeping
pub mod Merging
pub mod Planning
pub mod Relocating
pub mod Rotating
pub mod Staging
pub mod Stepping
pub mod Steps
pub mod Taking
-- Laws of these, which proofs of this crate and of others cite.
pub mod laws
