mod Batching
mod Calls
mod Causes
mod Committing
mod LoadedLaws
mod Sending
