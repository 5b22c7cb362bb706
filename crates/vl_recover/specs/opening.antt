-- What an opening finds and answers.
pub mod Answers
pub mod Counting
pub mod Finding
pub mod FoundTables
pub mod HeldFiles
pub mod Intact
pub mod Leading
pub mod LogsSoFar
pub mod Named
pub mod OpenedTables
pub mod Opening
pub mod Plans
pub mod ReadLogs
pub mod Results
pub mod Stages
pub mod Walk
pub mod TableFaults
