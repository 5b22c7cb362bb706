pub mod Backing
pub mod Fails
pub mod Loading
pub mod Written
