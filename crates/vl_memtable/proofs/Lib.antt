mod Along
mod AsOne
mod FactLaws
mod MergeSteps
mod RunLists
mod Spans
