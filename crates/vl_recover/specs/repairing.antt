-- What an opening changes, by a plan.
pub mod Deciding
pub mod Fitting
pub mod Holding
pub mod NextLogs
pub mod PlanViews
pub mod Repairing
pub mod Steps
