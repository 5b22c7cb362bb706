pub mod LeaseLaws
pub mod TakingLaws
