mod AnswerSteps
mod Behind
mod BlockSays
pub mod BodySteps
mod CursorLaws
mod CursorSteps
mod EntrySteps
mod Finished
mod Fits
mod Headers
mod KeptSteps
mod Lookups
mod MeetSteps
mod OpenSteps
mod OpeningSteps
mod OrderSteps
mod PartFaults
mod Parts
mod PointLaws
mod ReadSteps
pub mod Results
pub mod ScanSteps
mod SeekSteps
mod SpanParts
mod Stages
mod StandingBlocks
pub mod StartSteps
mod StandingSteps
mod StoppingSteps
mod StretchSteps
mod TestedSteps
mod TrueTables
mod WholeSpans
mod WholeTables
pub mod WriterBodies
pub mod WriterResults
mod Written
