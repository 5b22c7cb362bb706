pub mod Files
pub mod InUse
pub mod Pins
pub mod Same
-- Laws of these, which proofs of this crate and of others cite.
pub mod laws
