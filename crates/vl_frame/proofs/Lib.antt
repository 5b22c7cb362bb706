pub mod Fronts
pub mod Headers
mod InPlace
pub mod Spellings
