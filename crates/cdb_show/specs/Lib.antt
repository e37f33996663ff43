-- What the runs that only read are to do, and what clauses read of the types of all runs.
pub mod Command
pub mod Feed
pub mod Showing
pub mod Message
pub mod Runs
pub mod Views
pub mod Lines
pub mod Status
