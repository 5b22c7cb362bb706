-- What a line does to the disk, and what a crash leaves meanwhile.
pub mod Begun
pub mod Carried
pub mod Committed
pub mod Moved
pub mod Stepped
pub mod KeptSteps
pub mod Removals
pub mod Swept
