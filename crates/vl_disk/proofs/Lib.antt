pub mod MadeFiles
pub mod Torn
pub mod TwoFiles
