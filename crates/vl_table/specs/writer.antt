-- What is written of a table, piece by piece.
pub mod Bodies
pub mod Fails
pub mod Framing
pub mod PointSums
pub mod Tails
pub mod Writing
