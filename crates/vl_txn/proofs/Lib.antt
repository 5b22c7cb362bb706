pub mod Allowing
pub mod Noting
pub mod Places
pub mod WriteEntries
