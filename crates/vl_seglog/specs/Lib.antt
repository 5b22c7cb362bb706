pub mod Answers
pub mod Bodies
pub mod Commit
pub mod Frames
pub mod LogReading
pub mod Moves
pub mod Placed
pub mod Pointer
pub mod Reading
pub mod Record
pub mod Relocation
pub mod Sealed
pub mod Series
pub mod Staging
pub mod Stored
-- Laws of these, which proofs of this crate and of others cite.
pub mod laws
