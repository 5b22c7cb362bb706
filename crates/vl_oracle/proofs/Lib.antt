mod LiveLaws
mod Places
pub mod Tickets
