-- What the bodies of a table's frames spell.
pub mod Blocks
pub mod Bytes
pub mod Entries
pub mod Footer
pub mod Founds
pub mod Index
pub mod Lists
pub mod Shapes
pub mod Starts
