-- Laws of a merge that goes through its inputs' entries as they come, by matter.
pub mod BehindLaws
pub mod Chosen
pub mod Counted
pub mod FirstTableLaws
pub mod ProgressLaws
pub mod RaceLaws
pub mod ReadLaws
pub mod Repeats
pub mod SureReaders
pub mod TrueInputs
pub mod WalkLaws
pub mod WholeLaws
