pub mod CountLaws
pub mod ModestLaws
pub mod SinceLaws
pub mod StepLaws
pub mod TurnLaws
