-- Laws of what a crash leaves.
pub mod AlikeLaws
pub mod AppendLaws
pub mod NewLogLaws
pub mod OneName
pub mod Torn
pub mod TornFrames
pub mod Headers
pub mod IntactLaws
