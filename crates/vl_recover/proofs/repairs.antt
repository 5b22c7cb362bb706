-- What is changed.
pub mod ActiveStands
pub mod ActiveFree
pub mod Fitted
pub mod GoingOn
pub mod Holding
pub mod LastHeld
pub mod LastFiles
pub mod Removals
pub mod Repaired
pub mod RepairingLaws
pub mod Stepping
