pub mod FileName
pub mod Untold
