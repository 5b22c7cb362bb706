pub mod Changes
pub mod Past
pub mod Reading
pub mod Refusing
pub mod Sees
-- Laws of these, which proofs of this crate and of others cite.
pub mod laws
