-- Laws of what is changed.
pub mod LastLaws
pub mod ManifestStep
pub mod RecoveredLaws
pub mod RepairingOpens
pub mod RepairingStages
pub mod RepairingStart
pub mod RepairingSteps
pub mod StageLaws
pub mod StraysLaws
