pub mod DigitPairs
pub mod FirstBytes
mod Parsing
mod Plain
pub mod ScriptWords
pub mod Spelling
mod TextRows
