pub mod ChangePlan
pub mod CrashImage
pub mod Entry
pub mod Event
pub mod FailsPast
pub mod Held
pub mod Kept
pub mod MemDisk
pub mod Steady
pub mod StoppingDisk
pub mod SureDisk
pub mod Written
-- Laws of these, which proofs of this crate and of others cite.
pub mod laws
