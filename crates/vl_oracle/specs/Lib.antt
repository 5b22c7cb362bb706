pub mod Counts
pub mod LiveTickets
