-- The lines of merges.
pub mod Handing
pub mod Installing
pub mod PlanLine
pub mod GivenUp
