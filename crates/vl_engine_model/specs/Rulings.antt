-- What each call of an engine answers and leaves: a function of the layout, the history and what is
-- handed in, in one module for each call. A refusal stands in the order in which it is tested.
pub mod Abandon
pub mod Begin
pub mod Commit
pub mod Drain
pub mod EndPass
pub mod Flush
pub mod Forget
pub mod Fresh
pub mod Install
pub mod Keep
pub mod Next
pub mod Pick
pub mod Plan
pub mod Release
pub mod Relocate
pub mod Rotate
pub mod Stats
pub mod Sweep
pub mod View
