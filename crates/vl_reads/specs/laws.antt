-- Laws of what is seen and read, which proofs in other crates cite.
pub mod ChangesLaws
pub mod PastLaws
pub mod ReadLaws
pub mod SeesLaws
