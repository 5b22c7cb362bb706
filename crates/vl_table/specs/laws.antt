-- Laws of the definitions beside this folder, which proofs in other crates cite. Nothing here is needed to read a contract.
pub mod BlockLaws
pub mod EntryLaws
pub mod FooterLaws
pub mod KeyRanges
pub mod Lengths
pub mod ListLaws
pub mod Places
pub mod RangeLaws
pub mod SharedBlocks
pub mod TablePlaces
pub mod TrueBlocks
pub mod TrueOrder
pub mod WalkedLaws
pub mod WritingLaws
