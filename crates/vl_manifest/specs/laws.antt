-- Laws of the definitions beside this folder, which proofs in other crates cite. Nothing here is needed to read a contract.
pub mod CurrentLaws
pub mod EditLaws
pub mod FlushLaws
pub mod MadeLaws
pub mod ManifestLaws
pub mod StateLaws
pub mod SwitchLaws
pub mod TableLists
pub mod TornRuns
pub mod WholeLaws
