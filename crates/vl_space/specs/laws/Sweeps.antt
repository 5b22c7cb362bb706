-- What a sweep does to each file.
pub mod Freed
pub mod Going
pub mod Outside
pub mod Steady
