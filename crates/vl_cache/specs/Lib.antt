pub mod Cache
pub mod Reads
