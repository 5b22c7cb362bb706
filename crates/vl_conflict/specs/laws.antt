pub mod OrderLaws
pub mod RecentLaws
