mod BuildLaws
mod GroupLaws
mod InWayLaws
mod MergeLaws
pub mod Orders
pub mod Passing
mod StandingLaws
pub mod Steps
mod TreeLaws
