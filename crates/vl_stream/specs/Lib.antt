pub mod Batches
pub mod Grammar
pub mod Loads
pub mod Packing
pub mod Pieces
pub mod Reading
pub mod Restores
pub mod Streams
-- Laws of these, which proofs of this crate and of others cite.
pub mod laws
