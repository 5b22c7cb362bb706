-- Laws of what is kept of space, which proofs in other crates cite.
pub mod CollectLaws
pub mod Footers
pub mod HeldLogs
pub mod OpenedThere
pub mod Pinned
pub mod Readable
pub mod Retired
pub mod StartRemoved
pub mod StillRemoved
pub mod StillThere
pub mod SweepHolds
pub mod Sweeps
pub mod TallyBegun
pub mod Tallying
pub mod There
pub mod Unchanged
