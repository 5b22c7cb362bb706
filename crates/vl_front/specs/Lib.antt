pub mod Decisions
pub mod Front
pub mod Noting
