pub mod MarkLaws
pub mod SourceLaws
pub mod TellLaws
pub mod VersionLaws
