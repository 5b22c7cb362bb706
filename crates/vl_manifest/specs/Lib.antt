pub mod Current
pub mod Edits
pub mod Formats
pub mod Grammar
pub mod Levels
pub mod Making
pub mod Manifest
pub mod Reading
pub mod States
pub mod Switching
-- Laws of these, which proofs of this crate and of others cite.
pub mod laws
