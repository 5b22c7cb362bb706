-- Runs of lines: what they read and print, and how they end.
pub mod OpenedRuns
pub mod ReaderFaults
pub mod ReadingOn
pub mod Refusals
pub mod StaysOpen
