-- What a switch leaves of the files that are kept as in use, and of those that wait for their removal.
pub mod Changing
pub mod Kept
pub mod Laid
pub mod Retiring
pub mod Switched
pub mod There
