pub mod AsCalled
pub mod Benchmark
pub mod Handed
pub mod Opened
pub mod Rounds
pub mod Served
