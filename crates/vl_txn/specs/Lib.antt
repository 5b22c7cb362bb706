pub mod Fails
pub mod Reads
pub mod Refusals
pub mod Writes
