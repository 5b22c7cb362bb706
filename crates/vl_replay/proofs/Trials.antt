-- Trials: what a stop leaves, and what is then opened and printed.
pub mod InTime
pub mod Reopening
pub mod TrialEnds
