-- What a crash leaves.
pub mod IntactAfter
pub mod Recovered
pub mod RepairingAgain
pub mod RepairingMayOpen
pub mod TornManifest
