-- The lines of passes.
pub mod Batching
pub mod Ending
pub mod Moving
pub mod Named
pub mod Picking
pub mod Standing
pub mod Stepping
pub mod Telling
pub mod Undamaged
pub mod Used
