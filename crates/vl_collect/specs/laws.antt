-- Laws of the definitions beside this folder, which proofs in other crates cite. Nothing here is needed to read a contract.
pub mod StandingLaws
pub mod SureReaders
