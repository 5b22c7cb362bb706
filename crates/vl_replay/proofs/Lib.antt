pub mod AsCalled
pub mod Benchmarks
pub mod CarryingDraws
pub mod CarryingJob
pub mod CarryingRemoved
pub mod CarryingRounds
pub mod CarryingTables
pub mod Lines
pub mod Merges
mod Refused
pub mod Runs
pub mod Trials
