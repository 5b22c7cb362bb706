-- Laws of what is found.
pub mod ContentLaws
pub mod LeadsLaws
pub mod LogsLaws
pub mod OneFinding
pub mod OpeningLaws
pub mod ReadImage
pub mod IdleLaws
pub mod HeldLaws
pub mod TablesLaws
pub mod Readings
