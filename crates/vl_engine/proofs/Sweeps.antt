-- What a sweep comes to.
pub mod Answered
pub mod Holding
pub mod Standing
