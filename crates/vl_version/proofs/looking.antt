pub mod LevelLaws
pub mod LookLaws
pub mod LookSteps
pub mod LooksSoFar
pub mod Parts
pub mod ReadsOfSome
pub mod Through
