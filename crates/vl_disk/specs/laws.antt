-- Laws of the definitions beside this folder, which proofs in other crates cite. Nothing here is needed to read a contract.
pub mod Counting
pub mod Lawful
pub mod Lending
pub mod NameMap
pub mod Performing
pub mod Standing
