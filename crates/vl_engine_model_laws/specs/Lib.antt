pub mod Passes
pub mod Calls
pub mod Asks
pub mod Kept
pub mod Script
pub mod Live
-- Laws of these, which proofs of this crate and of others cite.
pub mod laws
