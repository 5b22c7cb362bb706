pub mod Counting
pub mod Driving
pub mod Process
pub mod Run
