-- The store as one thread of script lines sees it: what each line is answered, what it leaves, and how many of its calls
-- change files. It computes.
pub mod Lines
pub mod Commits
pub mod Things
pub mod Reading
pub mod Dispatch
pub mod Proper
