-- Laws of what a script's lines make of the names, the engine and the disk, by matter, which proofs in other crates cite.
pub mod Disk
pub mod Lines
pub mod Merges
pub mod Names
pub mod Passes
