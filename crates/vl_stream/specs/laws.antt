-- Laws of the definitions beside this folder, which proofs cite. Nothing here is needed to read a contract.
pub mod BackupLaws
pub mod BatchLaws
pub mod GrammarLaws
pub mod LawfulLaws
pub mod LoadLaws
pub mod StreamLaws
pub mod TakingLaws
