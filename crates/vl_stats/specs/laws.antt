pub mod BestLaws
pub mod RulingLaws
pub mod TallyLaws
