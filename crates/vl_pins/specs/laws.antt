-- Laws of pins, which proofs in other crates cite.
pub mod PinLaws
pub mod SameTickets
