-- Laws of the definitions beside this folder, which proofs in other crates cite. Nothing here is needed to read a contract.
pub mod BodyLaws
pub mod CommitLaws
pub mod FrameLaws
pub mod LogReadingLaws
pub mod MoveLaws
pub mod RecordLaws
pub mod RelocationLaws
pub mod ScanLaws
pub mod SeriesLaws
pub mod StoredLaws
