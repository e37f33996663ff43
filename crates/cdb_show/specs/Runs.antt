-- What the inputs of runs give, and what the runs that only read leave.
pub mod Inputs
pub mod Given
pub mod InputLaws
pub mod Parsing
pub mod InputTask
pub mod Incoming
pub mod Query
pub mod Flushed
pub mod Difference
pub mod Lookups
pub mod Stats
pub mod WalkText
