pub mod Beginning
mod BegunRemoved
mod Collected
mod DrawRemoved
mod KeepRemoved
pub mod LeftRemoved
mod Lawful
mod Leveled
mod MergeRemoved
mod MergedExits
mod MoveRemoved
mod OpenedRuns
mod PassLaws
mod Picking
mod PutLeft
mod PutThere
mod Refusing
pub mod Retired
mod StockExits
mod Sure
pub mod Sweeps
mod Switching
pub mod UnderWay
pub mod Whole
mod WriteRemoved
